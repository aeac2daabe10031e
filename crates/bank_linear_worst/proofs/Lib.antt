pub mod TooMany
