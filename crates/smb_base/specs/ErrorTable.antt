-- The error number that a call answers for a status of the server. The statuses are those of MS-ERREF 2.3.1, the numbers
-- those of Linux, and which goes with which is this project's own.
use Rattle.std.specs.Prelude.{ℕ, ◌==◌, if◌then◌else◌, List, [], ◌∷◌}

-- each status that has a number of its own, and that number
abbrev pub error_table : List (ℕ × ℕ)
error_table =
    (0xC0000022, 13)  -- ACCESS_DENIED: EACCES
    ∷ (0xC0000033, 2)  -- OBJECT_NAME_INVALID: ENOENT
    ∷ (0xC0000034, 2)  -- OBJECT_NAME_NOT_FOUND: ENOENT
    ∷ (0xC0000035, 17)  -- OBJECT_NAME_COLLISION: EEXIST
    ∷ (0xC000003A, 2)  -- OBJECT_PATH_NOT_FOUND: ENOENT
    ∷ (0xC0000043, 16)  -- SHARING_VIOLATION: EBUSY
    ∷ (0xC0000054, 13)  -- FILE_LOCK_CONFLICT: EACCES
    ∷ (0xC0000055, 13)  -- LOCK_NOT_GRANTED: EACCES
    ∷ (0xC0000056, 16)  -- DELETE_PENDING: EBUSY
    ∷ (0xC000007F, 28)  -- DISK_FULL: ENOSPC
    ∷ (0xC00000BA, 21)  -- FILE_IS_A_DIRECTORY: EISDIR
    ∷ (0xC00000BB, 95)  -- NOT_SUPPORTED: EOPNOTSUPP
    ∷ (0xC0000101, 39)  -- DIRECTORY_NOT_EMPTY: ENOTEMPTY
    ∷ (0xC0000103, 20)  -- NOT_A_DIRECTORY: ENOTDIR
    ∷ (0xC0000121, 13)  -- CANNOT_DELETE: EACCES
    ∷ []

-- the number that the table has for a status, or EREMOTEIO
abbrev pub number_in : List (ℕ × ℕ) → ℕ → ℕ
number_in [] status = 121
number_in (row ∷ rows) status = if status == row.0 then row.1 else number_in rows status

-- the number for a status
abbrev pub error_number : ℕ → ℕ
error_number status = number_in error_table status
