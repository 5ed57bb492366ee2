mod Walks
mod Parted
