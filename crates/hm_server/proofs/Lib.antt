mod Alike
mod Holds
