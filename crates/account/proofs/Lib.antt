-- The laws of `account`.
mod Bytes
pub mod Shared
pub mod Calls
pub mod OneWay
