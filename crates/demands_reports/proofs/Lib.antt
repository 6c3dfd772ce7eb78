pub mod Agreement
pub mod Firsts
pub mod Unread
