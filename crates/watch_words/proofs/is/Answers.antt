-- `==` says whether the words are equal as lists, and so whether their bytes are the same.
use Rattle.std.specs.Cmp.{unsigned_Decides}
use Rattle.std.proofs.lemmas.Slice.Eq.{slice_eq-Decides}
use Rattle.laws.proofs.Texts.{same_answer}
use Rattle.watch_words.proofs.is.Goals as goal

-- src/lib.rt:32:1
pub returns : goal.returns
returns c =
    let d = slice_eq-Decides unsigned_Decides c.args.word.now c.args.name.now c.eq.result c.eq.ensures in
    same_answer c.eq.result c.args.word.now c.args.name.now d.0 d.1
