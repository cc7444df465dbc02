mod Given
mod Runs
mod Lists
mod Images
