pub mod Transaction
pub mod Inner
