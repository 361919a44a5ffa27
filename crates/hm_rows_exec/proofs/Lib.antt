mod Baseless
mod Stays
