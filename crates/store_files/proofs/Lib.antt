pub mod Anew
pub mod Compacting
pub mod Places
pub mod Migrating
