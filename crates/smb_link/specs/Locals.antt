-- What the client knows by itself: its descriptors, the open files behind them, and which calls on each are under way.
use Rattle.std.specs.Prelude.{ℕ, Bool, List, [], Option}
use Rattle.fs_types.specs.declared.call.Call.{Call}
use Rattle.fs_types.specs.declared.answer.Answer.{Answer}

-- a range that is held by a lock
pub record Range : Type 0 where
  pub offset : ℕ
  pub size : ℕ
  pub exclusive : Bool

-- an open file: its path as it was opened, or none where a call of this client hid it since, its flags, the shared offset, the ranges that it holds, whether it was lost with a
-- connection, and the numbers of the calls on it that were begun and not answered, the oldest first
pub record Description : Type 0 where
  pub path : Option (List ℕ)
  pub flags : ℕ
  pub offset : ℕ
  pub ranges : List Range
  pub lost : Bool
  pub calls : List ℕ

-- each descriptor that names an open file, with that file's place in the list of them; the descriptors that a call holds back; and
-- the open files
pub record Locals : Type 0 where
  pub descriptors : List (ℕ × ℕ)
  pub reserved : List ℕ
  pub descriptions : List Description

-- nothing is open
abbrev pub no_locals : Locals
no_locals = record { descriptors = []; reserved = []; descriptions = [] }

-- the start of a call, by its number, changes them; that of a stat does not
abbrev pub begun : ℕ → Call → Locals → Locals
begun number call locals = locals

-- and so does its answer
abbrev pub answered : ℕ → Call → Answer → Locals → Locals
answered number call answer locals = locals
