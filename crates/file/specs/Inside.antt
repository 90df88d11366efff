-- What stands behind the record of a problem that was read at the head of a file.
-- Assumes nothing.
use Rattle.std.specs.Prelude.{ℕ, ◌+◌, ◌*◌, Bool, List, drop}
use Rattle.fields.specs.Fields.{bytes_for}
use Rattle.record.specs.Problem.{total_of}
use Rattle.record.specs.declared.Problem.{Problem}
use Rattle.file.specs.File.{tail_test}

-- where the record ends
abbrev pub record_end : Problem → ℕ
record_end q = bytes_for (21 + 2 * (q.height * q.width) + 18 * q.count + 2 * total_of q)

-- whether a tail stands behind it in the file s
abbrev pub has_tail : Problem → List ℕ → Bool
has_tail q s = tail_test (drop (record_end q) s) (q.height * q.width)
