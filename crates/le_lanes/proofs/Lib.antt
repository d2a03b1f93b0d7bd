mod Lanes
mod Scans
