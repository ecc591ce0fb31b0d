pub mod Categories
