pub mod SeenPins
pub mod Found
pub mod Turning
pub mod OneWay
pub mod WayLemmas
pub mod Destinations
