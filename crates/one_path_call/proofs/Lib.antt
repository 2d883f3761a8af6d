mod Asked
mod Given
