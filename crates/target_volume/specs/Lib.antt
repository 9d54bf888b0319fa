pub mod VolumeName
pub mod Volume
pub mod StoreRefused
pub mod VolumeStore
pub mod MemVolume
pub mod MemVolumes
