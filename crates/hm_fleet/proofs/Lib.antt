pub mod Alike
mod Running
mod Starting
mod Travelling
