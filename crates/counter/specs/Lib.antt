pub mod Counter
