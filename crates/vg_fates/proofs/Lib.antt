pub mod LogLemmas
mod HeldLemmas
