-- What goes out of a tick whose generator is lent: the next generator stays in the record. Assumes nothing.
use Rattle.generator.specs.declared.Ticked.{Ticked}
use Rattle.lent.specs.declared.Answer.{Answer}

abbrev pub answer_of : Ticked → Answer
answer_of t = record { refusal = t.refusal; signals = t.signals }
