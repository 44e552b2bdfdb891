pub mod CoreData
pub mod CoreRowView
pub mod CoreRows
pub mod CoreView
