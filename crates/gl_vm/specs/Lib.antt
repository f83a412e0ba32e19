pub mod Asking
pub mod MachineView
pub mod Named
pub mod Orderly
pub mod Ready
pub mod Standing
