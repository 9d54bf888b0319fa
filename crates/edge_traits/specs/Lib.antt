pub mod Source
pub mod MemSource
pub mod Sink
pub mod MemSink
pub mod Disk
pub mod MemDisk
pub mod StopDisk
