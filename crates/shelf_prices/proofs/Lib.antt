pub mod PriceLaws
