-- `certificate::Certificate::word` meets its contract: three bytes are the word at its place.
-- Assumes nothing.
use mathlib.Core.Path.{refl, ◌∙◌}
use Rattle.certificate.proofs.Words.{word_is}
use Rattle.certificate.proofs.Certificate.word.Goals as goal

pub returns-clause-word : goal.returns-clause-word
returns-clause-word c = word_is c.self.inside.bytes.now c.args.k (rw c.self.view_is c.requires) c.from_be_bytes.ensures ∙ rw c.self.view_is refl
