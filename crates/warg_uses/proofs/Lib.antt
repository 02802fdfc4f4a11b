mod MapCallers
mod RegistryCallers
mod TileCallers
