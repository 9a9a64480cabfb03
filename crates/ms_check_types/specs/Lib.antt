pub mod Arguments
pub mod Bodies
pub mod Callees
pub mod Faults
pub mod Items
pub mod Parts
pub mod SizedParts
pub mod Typed
