-- Words of private clauses: how a reader keeps its bytes, and the steps of which its public calls are made.
pub mod Buffer
pub mod Feeds
pub mod Steps
