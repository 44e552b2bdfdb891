mod Arrivals
mod Departures
