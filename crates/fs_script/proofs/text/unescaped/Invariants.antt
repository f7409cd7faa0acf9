-- the bytes so far stand for those that are written, and what the rest stands for comes behind them
use Rattle.std.proofs.Common.{◌≡◌, ◌++◌, drop, option_map}
use Rattle.fs_script.specs.declared.text.Escape.TheVariants.{Outside}
use Rattle.fs_script.specs.Texts.{IsSound, unescaped_in}
use Rattle.fs_script.proofs.text.unescaped.Given as goal

abbrev pub invariant-loop-byte : goal.invariant-loop-byte
invariant-loop-byte l = record {
  sound : IsSound l.begun;
  rest : unescaped_in Outside l.fn.word ≡ option_map (λ more. l.out.items ++ more) (unescaped_in l.begun (drop l.byte-index l.byte-items));
}
