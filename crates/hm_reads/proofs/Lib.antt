mod Inserted
mod Asked
