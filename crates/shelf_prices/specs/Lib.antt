pub mod ShelfPrices
