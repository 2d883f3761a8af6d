mod Given
mod ArrivalWords
