mod Built
mod Memory
