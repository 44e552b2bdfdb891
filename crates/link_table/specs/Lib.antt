pub mod Layout
pub mod LinksView
pub mod PlacesView
pub mod Priorities
pub mod Reordering
pub mod SetTree
pub mod UrgencyOrder
pub mod WaitingTasks
