mod Order
mod Ahead
mod Spans
mod Asked
mod Follows
