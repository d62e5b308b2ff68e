pub mod Around
