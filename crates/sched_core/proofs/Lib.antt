pub mod CoreBest
pub mod CoreEntered
mod CoreOrders
mod RoomMade
mod RowChanging
pub mod RowLoops
mod RowsChanged
mod RowsFollowed
mod RowsStarted
mod StepTouches
