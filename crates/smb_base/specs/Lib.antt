pub mod ErrorTable
