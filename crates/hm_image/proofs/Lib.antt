mod Rising
mod Told
mod Tables
mod Keys
mod Rooted
mod Laid
mod Served
