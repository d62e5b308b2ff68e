pub mod HeadLemmas
pub mod ForwardingExamples
