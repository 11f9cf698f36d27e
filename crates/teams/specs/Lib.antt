pub mod Teams
pub mod Apart
