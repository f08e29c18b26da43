pub mod Inner
pub mod Fields
pub mod Table
pub mod Render
pub mod Judge
