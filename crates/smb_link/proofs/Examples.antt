-- The mode that is shown, computed.
use Rattle.std.proofs.Common.{◌≡◌, ℕ, true, false, refl}
use Rattle.fs_types.specs.declared.options.Options.{Options}
use Rattle.smb_link.specs.Stat.{shown_mode}

-- options with these two modes; no other one bears on what is shown
abbrev with_modes : ℕ → ℕ → Options
with_modes file_mode dir_mode = record {
  strict = false;
  mapposix = true;
  mfsymlinks = false;
  nobrl = false;
  ro = false;
  file_mode = file_mode;
  dir_mode = dir_mode;
  rsize = 65536;
  wsize = 65536;
  closetimeo = 1;
  retries = 0;
  patience = 30;
}

-- 0755 is 0x1ED, and 0555 is 0x16D
writable : shown_mode (with_modes 0x1ED 0x1FF) false false ≡ 0x1ED
writable = refl

read_only : shown_mode (with_modes 0x1ED 0x1FF) false true ≡ 0x16D
read_only = refl

-- a directory has the other mode: 0777 is 0x1FF, and 0555 without its write bits
read_only_directory : shown_mode (with_modes 0x1A4 0x1FF) true true ≡ 0x16D
read_only_directory = refl

-- 0222 is taken away whole, and 07777 is 07555 then: 0x92, 0xFFF and 0xF6D
write_bits_alone : shown_mode (with_modes 0x92 0x1FF) false true ≡ 0
write_bits_alone = refl

special_bits_stay : shown_mode (with_modes 0xFFF 0x1FF) false true ≡ 0xF6D
special_bits_stay = refl

-- 04644 is 04444 then: set-user-id stays
set_user_id_stays : shown_mode (with_modes 0x9A4 0x1FF) false true ≡ 0x924
set_user_id_stays = refl
