use Rattle.std.proofs.Common.{sym}
use Rattle.parcel_trials.proofs.ParcelExamples.{worked}
use Rattle.parcel_trials.proofs.worked_parcels.Goals as goal

pub returns : goal.returns
returns c = record { long = λ x y memory ten. sym (worked.parcels.length_is_46 x y memory ten); theorem = worked }
