mod Crews
mod Feeds
mod SlotExamples
mod Trials
