mod Few
mod Fewer
mod Keeping
mod Among
mod Hinted
mod Packed
