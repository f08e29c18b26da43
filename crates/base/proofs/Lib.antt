pub mod Below
pub mod Lists
