mod InTime
mod Told
mod Fresh
