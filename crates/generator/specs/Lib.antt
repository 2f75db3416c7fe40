pub mod GridMap
