-- Sectors of 512 bytes, and the two that programs make: one of equal bytes, and one that repeats a
-- number, so that a sector read back tells which write it is from.
use Rattle.std.specs.Prelude.{ℕ, ◌%◌, map, replicate, slice_index}
use Rattle.std.specs.List.{range_with_len}
use Rattle.std.specs.Int.{w64, to_be_bytes}
use Rattle.basics.specs.declared.limits.TheConstants.{SECTOR_BYTES}
use Rattle.sector_model.specs.declared.sector.Sector.{Sector}

-- all bytes the same
unfoldable pub filled : (byte : ℕ) → Sector
filled byte = record { 0 = replicate SECTOR_BYTES byte }

-- what a fresh disk holds
abbrev pub zero_sector : Sector
zero_sector = filled 0

-- the stamp's eight bytes, big-endian, again and again
unfoldable pub stamped : (stamp : ℕ) → Sector
stamped stamp = record {
  0 = map (λ i. slice_index (to_be_bytes w64 stamp) (i % 8)) (range_with_len 0 SECTOR_BYTES);
}
