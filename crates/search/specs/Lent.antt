-- A model that is lent part by part. Definitions only.
use Rattle.gp_model.specs.declared.Model.{Model}
use Rattle.search.specs.declared.Lent.{Lent}
use Rattle.search.specs.Search.{parts_of}

abbrev pub model_of : Lent → Model
model_of m = parts_of m.x_train.now m.lengthscales.now m.cholesky.now m.alpha.now m.f_best m.n m.d
