-- `Source::lacks_red` meets its contract: by `other_red`. Assumes nothing.
use mathlib.Core.Path.{sym, ◌∙◌}
use Rattle.lists.proofs.Bools.{and_split}
use Rattle.picture.specs.Pixels.{reduced_of}
use Rattle.candidates.proofs.CollectLaws.{other_red}
use Rattle.candidates.proofs.source.Source.lacks_red.Goals as goal

pub returns : goal.returns
returns c =
    let pixels = c.args.self.pixels in
    λ t. let both = and_split c.keeps_channels.result _ t in
    other_red (reduced_of pixels) c.args.i c.args.red (c.red_at.ensures pixels.reducing (sym c.keeps_channels.ensures ∙ both.0)) both.1
