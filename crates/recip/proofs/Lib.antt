-- What the library promises: one theorem for each sentence, where another repository can cite it.
pub mod Promises
