pub mod Certificate
pub mod Inside
