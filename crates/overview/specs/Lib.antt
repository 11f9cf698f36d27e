pub mod Overview
