-- A part fits where it comes after the last and those before it have what it needs.
use Rattle.std.proofs.Common.{◌≡◌, ◌∷◌, true}
use Rattle.hm_data.specs.declared.entry.Entry.TheVariants as entry_is
use Rattle.hm_data.specs.declared.part.Part.{Part}
use Rattle.hm_data.specs.declared.part.Part.TheVariants as part_is
use Rattle.hm_model.specs.Base.{PartFits, rises}
use Rattle.hm_model.specs.Journal.{Past}
use Rattle.hm_base.specs.Fits.{Suits}

pub fits_by : (one : Part) (older : Past) (part : Part) → rises one part ≡ true → Suits (entry_is.Base one ∷ older) part → PartFits part (entry_is.Base one ∷ older)
fits_by one older (part_is.Head entries last parts sheets) up suits = absurd suits
fits_by one older (part_is.Namespace ns) up suits = up
fits_by one older (part_is.Table table own row) up suits = (up, suits.0, suits.1)
fits_by one older (part_is.Region region range status parents place) up suits =
    let numbers = (suits.0).0 in (up, numbers.0, numbers.1, numbers.2, (suits.0).1, suits.1)
fits_by one older (part_is.Server server fenced) up suits = (up, suits.0, suits.1)
fits_by one older (part_is.Root pid nonce args cause) up suits = let number = suits.0 in (up, number.0, number.1, suits.1, suits.2)
fits_by one older (part_is.Layout pid) up suits = (up, suits.0, suits.1)
