pub mod FqCodel
pub mod Ingress
pub mod Bpf
pub mod MatchAll
pub mod U32
pub mod Options
